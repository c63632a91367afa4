pub mod Sets
pub mod Chains
pub mod Steps
pub mod Plans
pub mod Memories
