-- what a caller has to believe
pub mod Json
pub mod Members
pub mod Plan
pub mod Documents
pub mod Faults
pub mod Csv
pub mod Entry
pub mod Lines
pub mod Orders
pub mod OrderRows
pub mod Tally
-- within the crate
pub mod Adds
