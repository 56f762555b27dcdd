pub mod Digits
pub mod Told
pub mod Called
pub mod Proved
pub mod Short
pub mod Files
