pub mod Listing
mod Writing
pub mod Kept
pub mod Unread
pub mod Saying
mod Wanting
