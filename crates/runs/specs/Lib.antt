pub mod TraceEntries
pub mod Laws
pub mod Run
pub mod Traces
