pub mod Answered
pub mod Same
