pub mod Lines
pub mod Laws
pub mod Hints
pub mod Refusals
