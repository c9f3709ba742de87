-- what a caller has to believe
pub mod Dates
pub mod DatedInstance
pub mod Dated
pub mod Leaving
