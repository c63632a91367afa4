pub mod Lists
pub mod Chains
pub mod Order
pub mod Search
pub mod Words
pub mod Laws
