pub mod Fews
pub mod Naming
pub mod References
pub mod Codes
pub mod Successor
pub mod Picking
pub mod Scoped
pub mod Putting
