pub mod Results
pub mod Inverses
