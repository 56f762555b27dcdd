pub mod Listing
pub mod LiveNodes
pub mod Finishing
