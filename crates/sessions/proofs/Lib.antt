pub mod Performed
pub mod Draws
pub mod Walk
pub mod Starts
mod Told
