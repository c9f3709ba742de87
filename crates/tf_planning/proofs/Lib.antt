pub mod Running
pub mod Texts
