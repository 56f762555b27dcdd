pub mod Xor
pub mod Run
pub mod Fold
