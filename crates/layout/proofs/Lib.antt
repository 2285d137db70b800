pub mod Examples
pub mod Arrays
pub mod Firsts
pub mod Order
pub mod Past
pub mod Search
pub mod Turns
