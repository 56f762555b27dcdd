pub mod Patterns
pub mod Gathered
pub mod IeeeBits
pub mod Edges
