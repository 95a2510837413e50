pub mod Backs
pub mod Encoded
pub mod Filled
pub mod Placed
pub mod Judges
pub mod Stands
