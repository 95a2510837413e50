pub mod Writing
pub mod Sending
pub mod Unhexing
