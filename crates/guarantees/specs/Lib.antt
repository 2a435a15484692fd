pub mod TenSlots
