pub mod Conditions
pub mod Agreement
