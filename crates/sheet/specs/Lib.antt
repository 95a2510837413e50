pub mod Records
pub mod Held
pub mod Places
pub mod Open
pub mod Parts
pub mod Kept
