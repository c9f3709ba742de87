-- what a caller has to believe
pub mod Limit
pub mod Words
pub mod Lines
pub mod LineParts
pub mod FirstLine
pub mod WordParts
pub mod Digits
pub mod Number
pub mod Ranged
-- within the crate
pub mod SoFar
pub mod Scan
