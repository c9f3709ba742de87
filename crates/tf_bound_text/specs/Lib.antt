-- what a caller has to believe
pub mod BoundSheetData
pub mod BoundReading
