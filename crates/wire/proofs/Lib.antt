pub mod Clipped
pub mod Fields
pub mod Left
pub mod Narrowed
pub mod Small
