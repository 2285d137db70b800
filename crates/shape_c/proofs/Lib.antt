mod Ends
pub mod Turns
