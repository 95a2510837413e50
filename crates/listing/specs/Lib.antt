pub mod Listed
pub mod Restated
pub mod Unhexed
