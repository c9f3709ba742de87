-- what a caller has to believe
pub mod Table
pub mod Plan
pub mod Fields
pub mod Draw
pub mod Asked
