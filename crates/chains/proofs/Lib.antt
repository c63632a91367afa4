pub mod Lists
pub mod Sound
pub mod Least
pub mod Wording
pub mod Standing
pub mod Gathered
