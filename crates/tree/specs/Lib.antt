pub mod Questions
pub mod Reached
pub mod Reaches
