pub mod Lookups
pub mod Edits
pub mod Shaping
pub mod Laws
pub mod Examples
pub mod Limits
