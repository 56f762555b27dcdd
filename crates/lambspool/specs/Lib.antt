pub mod Asked
pub mod Fits
pub mod Lines
pub mod Said
