pub mod Cuts
pub mod Faults
pub mod Headers
pub mod Layout
pub mod Pieces
pub mod Ranges
