pub mod Books
pub mod Records
pub mod Lengths
pub mod Framing
pub mod Single
