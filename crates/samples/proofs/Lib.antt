pub mod VerdictChecks
pub mod Verdicts
pub mod Samples
