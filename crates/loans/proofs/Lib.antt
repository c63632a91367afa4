pub mod Changes
pub mod Listed
pub mod Judged
