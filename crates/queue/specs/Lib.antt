pub mod Clones
pub mod Held
pub mod Queues
pub mod Slots
