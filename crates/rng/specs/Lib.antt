pub mod Rng
