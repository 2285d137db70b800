pub mod Cmap
pub mod Examples
pub mod Gdef
pub mod Hmtx
pub mod TableFont
