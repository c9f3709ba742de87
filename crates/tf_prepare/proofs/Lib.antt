pub mod RouteTimes
pub mod RoutesOf
pub mod PosedSize
pub mod Alike
