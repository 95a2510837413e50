pub mod Handed
pub mod Agreeing
