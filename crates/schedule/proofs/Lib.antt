mod Refills
pub mod Waiting
pub mod Grants
pub mod ServerSlots
pub mod Sessions
pub mod Counts
mod TimetablePlaces
