pub mod Lay
pub mod Shape
pub mod Told
pub mod Laws
pub mod Fit
pub mod Little
