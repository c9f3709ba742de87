-- what a caller has to believe
pub mod Listing
pub mod Unsolved
pub mod Fields
