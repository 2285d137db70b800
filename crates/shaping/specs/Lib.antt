pub mod Attempts
pub mod Shape
pub mod Work
pub mod First
