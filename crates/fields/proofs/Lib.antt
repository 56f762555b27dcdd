pub mod Parts
pub mod Numbers
pub mod Readers
pub mod Writers
pub mod WriteOn
pub mod Edges
pub mod PlacedLaws
pub mod ZeroTail
