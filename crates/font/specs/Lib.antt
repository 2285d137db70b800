pub mod Font
pub mod Search
pub mod StandIn
pub mod Table
pub mod Told
