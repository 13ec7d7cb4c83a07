pub mod Fields
pub mod Decimal
pub mod Names
pub mod Lines
