pub mod Written
pub mod PermutedOutcomes
pub mod Standing
pub mod Given
pub mod SumParts
pub mod EndsInBound
