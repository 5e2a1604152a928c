pub mod Bytes
pub mod Span
pub mod Told
