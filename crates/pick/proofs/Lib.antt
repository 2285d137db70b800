pub mod Copies
pub mod Whole
