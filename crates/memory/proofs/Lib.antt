pub mod Asking
pub mod Entries
