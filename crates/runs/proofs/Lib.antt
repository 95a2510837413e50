pub mod Scripted
pub mod Parted
pub mod Running
pub mod Fitting
