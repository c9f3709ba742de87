-- what a caller has to believe
pub mod TimedData
pub mod Preparing
pub mod Alike
