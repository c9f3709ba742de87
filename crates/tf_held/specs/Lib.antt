-- what a caller has to believe
pub mod Texts
pub mod AnswerTexts
pub mod Headings
pub mod Series
pub mod Measured
pub mod Shops
pub mod Program
-- within the crate
pub mod Cuts
pub mod Instances
pub mod Done
