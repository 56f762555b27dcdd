pub mod Steps
pub mod Utf8
