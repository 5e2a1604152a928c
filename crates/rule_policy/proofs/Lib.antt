pub mod Tables
pub mod Judging
pub mod Ruling
pub mod Meant
