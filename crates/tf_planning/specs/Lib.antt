-- what a caller has to believe
pub mod Planning
pub mod PlanText
pub mod RunPlanning
