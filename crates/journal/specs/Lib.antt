pub mod FormatNumbers
pub mod Bytes
pub mod Kind
pub mod Entries
pub mod BlockSums
pub mod Blocks
pub mod WriteRead
pub mod Text
