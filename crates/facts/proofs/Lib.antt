pub mod Numbered
pub mod Opened
pub mod Worked
