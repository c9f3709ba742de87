-- what a caller has to believe
pub mod EvaluationData
pub mod Outcomes
pub mod Arithmetic
pub mod Evaluating
pub mod EvaluationText
pub mod RunEvaluating

-- within the crate
