pub mod Cyclic
pub mod PlacedWords
pub mod Reading
pub mod ShopPlaces
pub mod ShopSaid
pub mod ShopTimes
pub mod ShopTimesSaid
pub mod Written
