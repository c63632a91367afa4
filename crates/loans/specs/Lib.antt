pub mod Events
pub mod Hooks
