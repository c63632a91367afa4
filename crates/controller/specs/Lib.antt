pub mod Slips
pub mod Cabinets
pub mod Runs
pub mod Promise
