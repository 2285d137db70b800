pub mod Runs
pub mod Contents
pub mod Laws
