pub mod Bools
pub mod Firsts
pub mod Gather
pub mod Levels
pub mod Walk
pub mod Reaching
