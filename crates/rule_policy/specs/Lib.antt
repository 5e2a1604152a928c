pub mod Refused
pub mod Held
pub mod Place
pub mod Judged
pub mod Fits
pub mod Meaning
