pub mod Sources
pub mod Moves
pub mod Standing
pub mod Runs
pub mod Working
pub mod Stepped
