pub mod AnswerTexts
pub mod Names
pub mod Told
pub mod Cuts
pub mod Numbered
pub mod Again
pub mod Lines
pub mod Counted
pub mod Measuring
mod Unread
