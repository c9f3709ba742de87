-- what a caller has to believe
pub mod RoutedData
pub mod Routes
pub mod JobShop
pub mod RoutedTable
-- within the crate
pub mod TextLeft
pub mod Marks
pub mod Unrouted
