pub mod Session
pub mod ServerSlot
pub mod Timetable
pub mod Turns
