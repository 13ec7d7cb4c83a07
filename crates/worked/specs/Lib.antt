pub mod Figures
pub mod Story
