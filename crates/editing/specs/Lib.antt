pub mod Frames
pub mod Contents
pub mod Joins
