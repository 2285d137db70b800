pub mod Accepted
pub mod Examples
pub mod Groups
pub mod Parts
pub mod Sets
