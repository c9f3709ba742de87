-- what a caller has to believe
pub mod Asking
pub mod Columns
