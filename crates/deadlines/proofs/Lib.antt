pub mod Sums
pub mod BusyPeriod
pub mod Service
pub mod OneAtATime
pub mod Spacing
pub mod Lateness
pub mod Ledgers
pub mod Servers
