pub mod Halls
pub mod Carried
