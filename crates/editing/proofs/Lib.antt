pub mod Adds
pub mod Moves
pub mod Opens
pub mod Tables
pub mod Removals
pub mod Joins
pub mod Positions
