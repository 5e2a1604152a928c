pub mod Lookup
pub mod Opened
pub mod Tables
