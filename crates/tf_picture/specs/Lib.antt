-- what a caller has to believe
pub mod Dates
pub mod Picture
pub mod Bars
pub mod Strips
-- within the crate
pub mod Sound
