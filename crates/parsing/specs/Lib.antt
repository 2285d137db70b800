pub mod Errors
pub mod Faults
pub mod Items
pub mod Number
pub mod Pairs
pub mod Script
pub mod Text
