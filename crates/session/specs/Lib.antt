pub mod Performed
pub mod Scripts
