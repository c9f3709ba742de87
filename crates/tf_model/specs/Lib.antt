-- what a caller has to believe
pub mod Limit
pub mod Whole
pub mod Steps
pub mod Level
pub mod JobFields
pub mod InstanceData
pub mod StepFaults
pub mod ClassTable
pub mod Outcome
pub mod Prepare
pub mod Timetable
pub mod SchedulingTask
pub mod Feasible
pub mod Cost
pub mod Sound
pub mod Bounds
pub mod Cycle
-- within the crate
pub mod CostLaws
pub mod CountFor
pub mod Distinct
pub mod Complete
pub mod Summed
pub mod JobRows
pub mod TaskBuilder
