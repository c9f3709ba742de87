mod Turns
mod Distinct
mod Added
mod Operating
mod Posed
mod Scheduling
mod Listing
mod Reading
mod Rated
mod Graded
mod Rows
mod Running
pub mod Past
mod NumberedRows
