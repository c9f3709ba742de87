-- what a caller has to believe
pub mod Orders
pub mod Laying
pub mod Operations
pub mod Listed
pub mod Ruled
pub mod Measuring
pub mod Pieces
pub mod OrderText
pub mod RunOrders
-- within the crate
pub mod OrderParts
