pub mod Covering
pub mod Cutting
pub mod HeaderTrips
pub mod Ordered
pub mod ProgramTrips
pub mod Stray
