mod Rows
mod WorkedRuns
