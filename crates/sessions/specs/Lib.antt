pub mod Lines
pub mod Commands
pub mod Sessions
pub mod Performing
