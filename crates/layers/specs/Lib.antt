pub mod Routers
pub mod Spreaders
pub mod Merging
