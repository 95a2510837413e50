pub mod Kinds
pub mod Defaults
pub mod Columns
