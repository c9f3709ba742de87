mod Cheaper
mod Judged
mod Steps
mod Fitting
pub mod Laid
pub mod Complete
mod Orders
pub mod Named
mod Forbidden
