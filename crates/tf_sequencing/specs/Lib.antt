-- what a caller has to believe
pub mod Rules
-- within the crate
pub mod GoesBefore
