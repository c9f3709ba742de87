pub mod Adding
pub mod Texts
pub mod Saying
pub mod Listing
pub mod Planning
