pub mod SlotsAlone
pub mod TenSlots
