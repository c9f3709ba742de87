-- what a caller has to believe
pub mod RunsByRatio
pub mod EarliestDue
pub mod Horn
pub mod FirstCycle
pub mod NotSolved
pub mod Costs
pub mod Backward
pub mod FromTheBack
-- within the crate
pub mod CostedJob
pub mod Progress
pub mod Agenda
pub mod Ends
pub mod Open
pub mod GreatestFirst
pub mod ByDue
pub mod ArcCounts
pub mod ArcsInto
pub mod Successors
