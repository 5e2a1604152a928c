pub mod Rows
pub mod Calls
pub mod Runs
pub mod Worked
pub mod Stepping
