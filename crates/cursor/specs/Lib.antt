pub mod Spots
pub mod Ahead
