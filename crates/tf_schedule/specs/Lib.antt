-- what a caller has to believe
pub mod Piece
pub mod Schedule
pub mod Drawing
pub mod SemiActive
pub mod Sequence
pub mod Misfit
pub mod Judged
pub mod Asks
pub mod ProblemMisfit
pub mod ProblemJudged
pub mod Cost
-- for the proofs of this crate and of those above it
pub mod Claims
pub mod Amounts
pub mod Extent
pub mod MachineRange
pub mod Lanes
-- within the crate
pub mod ClassMisfit
pub mod Operation
pub mod Tables
pub mod Passing
pub mod Stops
pub mod Condition
pub mod Line
pub mod MachinePart
