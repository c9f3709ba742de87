pub mod Texts
pub mod Whole
