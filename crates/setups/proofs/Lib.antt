pub mod Padding
pub mod Growth
pub mod GuestPlaces
pub mod ServerTasks
pub mod SlotWindows
