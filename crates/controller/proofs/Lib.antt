pub mod Keys
pub mod Whole
pub mod Shown
