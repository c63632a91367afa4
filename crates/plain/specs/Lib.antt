pub mod Record
pub mod Laws
