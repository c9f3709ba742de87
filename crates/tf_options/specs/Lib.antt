-- what a caller has to believe
pub mod OptionNumber
pub mod Columns
pub mod Matched
pub mod Viewing
pub mod FormatAsked
pub mod Understood
pub mod SeriesAsked
pub mod Understanding
