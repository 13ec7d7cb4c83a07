pub mod Counted
pub mod Played
pub mod Told
