-- what a caller has to believe
pub mod Faults
pub mod Said
pub mod CostField
pub mod JobLine
pub mod JobTable
pub mod NextJob
pub mod NextArc
pub mod WeightedTardiness
pub mod FlowShop
-- within the crate
pub mod UsualSteps
pub mod WordFeed
pub mod Numbers
pub mod WtReading
pub mod WtReader
pub mod Pairs
pub mod InstanceNumbers
pub mod PresentLine
pub mod Heading
pub mod Sizes
pub mod FlowStage
pub mod FlowReader
