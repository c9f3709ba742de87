-- what a caller has to believe
pub mod BoundRead
pub mod Assessing
pub mod AssessmentText
pub mod Measures
pub mod RunAssessing
pub mod RunRating
-- within the crate
pub mod Placed
