pub mod Answers
pub mod RehearsalBlocks
