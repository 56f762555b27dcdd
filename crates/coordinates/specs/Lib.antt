pub mod Coordinates
pub mod Largest
