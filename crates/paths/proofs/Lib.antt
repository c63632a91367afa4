mod Chains
mod Walks
mod Memories
mod Nears
