-- what a caller has to believe
pub mod FormData
pub mod RequestData
pub mod Faults
pub mod Refusal
pub mod Solvers
pub mod Rules
pub mod Runs
pub mod VerdictLine
pub mod Checking
pub mod Headline
pub mod Drawing
pub mod Devices
-- within the crate
pub mod Passed
pub mod Parts
pub mod CaseParts
pub mod Outputs
