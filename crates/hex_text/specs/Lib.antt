pub mod Small
pub mod Text
pub mod Decoded
