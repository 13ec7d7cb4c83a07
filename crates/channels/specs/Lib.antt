pub mod Checks
pub mod Lines
pub mod Standing
pub mod Status
