-- what a caller has to believe
pub mod Claim
pub mod Certificate
pub mod Ratio
pub mod KeyedJob
pub mod Ranked
pub mod Kinds
pub mod Bound
pub mod Accepted
pub mod Verdict
pub mod Judgement
-- within the crate
pub mod Laws
pub mod GoesBefore
pub mod RatioRank
pub mod Free
pub mod Sides
