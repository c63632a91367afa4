pub mod Truths
pub mod Laws
pub mod Own
pub mod Layers
pub mod Steady
pub mod OwnLaws
pub mod LayerLaws
