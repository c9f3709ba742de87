pub mod Dated
mod Leaving
