-- what a caller has to believe
pub mod SerialOrder
pub mod Order
pub mod Plan
pub mod NoPlan
-- within the crate
pub mod Bare
pub mod Serial
