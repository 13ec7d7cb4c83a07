pub mod Asked
pub mod Whole
