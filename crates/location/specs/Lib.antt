pub mod Answers
pub mod Layers
pub mod Steps
