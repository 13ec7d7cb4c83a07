mod Coming
mod Performing
mod Repeating
