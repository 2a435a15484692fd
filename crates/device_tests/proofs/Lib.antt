pub mod Blinds
