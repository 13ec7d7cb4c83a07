pub mod Troubles
pub mod Readers
pub mod Arguments
pub mod Calls
pub mod Lists
pub mod Piles
pub mod Commands
