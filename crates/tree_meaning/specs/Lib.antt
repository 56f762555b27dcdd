pub mod Holds
pub mod Spares
