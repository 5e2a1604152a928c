pub mod Laid
pub mod Numbers
pub mod Only
pub mod Shown
pub mod Single
pub mod Written
