pub mod Passing
pub mod Numbers
pub mod Orphans
pub mod Sweeping
