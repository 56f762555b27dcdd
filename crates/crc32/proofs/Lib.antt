pub mod Shift
pub mod Bytes
pub mod Slices
pub mod Sealed
pub mod Table
pub mod Sparse
pub mod Register
pub mod Known
