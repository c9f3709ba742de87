pub mod Flags
pub mod Told
mod Understanding
