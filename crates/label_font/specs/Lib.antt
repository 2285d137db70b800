pub mod LabelFile
pub mod LabelFont
pub mod LabelReader
