-- what a caller has to believe
pub mod ProblemData
pub mod FitsProblem
pub mod ProblemCost
pub mod Agreement
