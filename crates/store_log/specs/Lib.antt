pub mod Told
pub mod Stored
