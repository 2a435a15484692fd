pub mod TaskSets
pub mod Verdict
pub mod AdmissionLaws
pub mod Text
