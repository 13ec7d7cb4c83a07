pub mod Halves
pub mod Making
pub mod Meaning
