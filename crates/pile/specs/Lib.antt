pub mod Eithers
pub mod Piles
pub mod Plans
