pub mod Granting
pub mod Meant
pub mod Order
