pub mod Graph
pub mod Layout
pub mod Cache
pub mod Decoded
pub mod Neighbours
pub mod Marks
pub mod Told
pub mod Sound
