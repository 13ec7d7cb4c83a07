pub mod RouterSends
pub mod RouterTakes
pub mod RouterWaits
pub mod Routing
pub mod Spreading
