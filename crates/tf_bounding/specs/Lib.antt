-- what a caller has to believe
pub mod BoundText
pub mod ShopTimes
pub mod Feasible
pub mod RunBounding
-- within the crate
pub mod ShopWords
