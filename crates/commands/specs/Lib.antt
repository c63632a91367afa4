pub mod Law
pub mod Reading
pub mod Steps
pub mod Drafts
