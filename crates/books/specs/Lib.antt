pub mod Items
pub mod Trees
pub mod Readings
pub mod Stacks
pub mod Books
pub mod BookLaws
pub mod Windows
