pub mod Gap
pub mod Merges
