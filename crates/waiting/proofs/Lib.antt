pub mod Best
pub mod Least
pub mod Ranks
