pub mod LimitNumbers
pub mod Plan
pub mod Supply
pub mod Demand
pub mod Limits
