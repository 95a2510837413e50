pub mod Scripts
pub mod Turns
pub mod Example
