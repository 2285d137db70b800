pub mod Attempts
pub mod Passing
pub mod Laying
pub mod Depth
pub mod Works
pub mod Firsts
