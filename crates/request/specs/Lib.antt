pub mod Refused
pub mod Tables
pub mod Held
pub mod Answered
pub mod Place
