mod Spaces
mod Values
