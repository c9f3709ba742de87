-- what a caller has to believe
pub mod CostBy
