pub mod Fields
pub mod Format
pub mod Letters
pub mod LetterLaws
