pub mod RunCalls
pub mod Table
