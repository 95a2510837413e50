pub mod Answered
pub mod Played
