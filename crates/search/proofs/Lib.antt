pub mod Places
mod Snoc
pub mod Marked
mod Bridge
mod Found
mod Prefix
