pub mod Fielded
pub mod Marks
pub mod Opened
pub mod Seen
pub mod Stands
pub mod Whole
