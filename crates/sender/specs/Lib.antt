pub mod Splice
pub mod Penned
pub mod Sent
pub mod Writable
pub mod Heads
pub mod Tested
pub mod Surveyed
