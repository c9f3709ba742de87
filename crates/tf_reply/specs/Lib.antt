-- what a caller has to believe
pub mod Asked
pub mod Commands
pub mod Replies
pub mod WellFormed
-- within the crate
pub mod Units
