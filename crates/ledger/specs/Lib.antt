pub mod Answers
pub mod Ledgers
pub mod Sweeps
