pub mod Next
pub mod Seek
pub mod Match
