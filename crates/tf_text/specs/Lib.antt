-- what a caller has to believe
pub mod Counted
pub mod Input
pub mod JobWords
pub mod AnswerText
pub mod Chart
pub mod AnswerReading
pub mod Readable
-- within the crate
pub mod NextPiece
pub mod AnswerStage
pub mod AnswerReader
