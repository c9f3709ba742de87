mod BoundRead
mod Offering
mod Assessing
pub mod Reading
mod Written
mod Measuring
mod Serving
mod Alike
mod Placing
