-- what a caller has to believe
pub mod Relaxed
pub mod ProblemBounds
pub mod FlowAgreement
pub mod Pushed
pub mod Kept
pub mod Shortest
pub mod Ranks
pub mod Parts
pub mod MachinePrices
pub mod Potentials
pub mod Split
pub mod ProblemLaws
