pub mod Same
pub mod Chosen
