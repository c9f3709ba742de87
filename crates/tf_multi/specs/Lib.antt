-- what a caller has to believe
pub mod Longest
pub mod Wrapped
pub mod Dealing
pub mod Dealt
pub mod TwoMachines
pub mod OpenShop
pub mod Johnson
-- within the crate
pub mod Fill
pub mod FlowShop
