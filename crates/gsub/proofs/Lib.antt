mod Examples
pub mod Placed
mod Remembers
