pub mod Limits
pub mod Settings
