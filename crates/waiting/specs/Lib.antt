pub mod Change
pub mod Earliest
pub mod Loan
pub mod Replace
