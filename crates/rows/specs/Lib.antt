pub mod Packed
pub mod Rows
pub mod Lent
