mod PartByPart
mod Failing
mod BlockChecks
mod Digits
mod EntryLaws
mod BlockLaws
mod ReadsBack
mod WritesBack
