pub mod Choices
pub mod Joins
pub mod Modes
pub mod Chosen
pub mod Bracketing
