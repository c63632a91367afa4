pub mod Checks
pub mod Made
