pub mod States
pub mod Ranges
pub mod Reports
pub mod Parts
