pub mod Reports
pub mod BlockCounts
