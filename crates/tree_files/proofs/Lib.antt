pub mod Named
pub mod Order
pub mod Links
pub mod Segments
pub mod Reading
pub mod Answering
pub mod Spelling
