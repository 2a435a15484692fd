pub mod Setups
pub mod Verdicts
