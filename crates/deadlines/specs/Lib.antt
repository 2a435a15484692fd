pub mod Course
pub mod DeadlineLaw
pub mod Sums
