-- what a caller has to believe
pub mod Route
pub mod JobTimes
pub mod Sized
pub mod Steps
pub mod Refused
pub mod RowSums
pub mod Prices
pub mod Kinds
pub mod Split
pub mod Faulted
pub mod Judged
pub mod Optimal
pub mod Certified
-- within the crate
pub mod Visits
pub mod RowPrices
pub mod Delays
pub mod ArcEnds
pub mod Along
pub mod JobNumbers
pub mod InOrder
