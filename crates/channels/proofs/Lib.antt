pub mod Finding
pub mod Starting
