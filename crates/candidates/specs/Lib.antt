pub mod Asked
pub mod Actions
pub mod Views
pub mod Sets
pub mod Sound
pub mod Placed
pub mod LookupOf
pub mod Chosen
