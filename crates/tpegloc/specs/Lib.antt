pub mod Coded
pub mod Agreed
pub mod Tried
