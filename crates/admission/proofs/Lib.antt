pub mod SearchBounds
pub mod DemandSteps
pub mod Owners
mod OperationStarts
mod CeilingDivision
mod SearchResults
pub mod UniqueVerdict
