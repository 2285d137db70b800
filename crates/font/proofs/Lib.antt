pub mod Finds
mod Tables
