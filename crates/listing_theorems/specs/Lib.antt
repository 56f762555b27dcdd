pub mod ListingCalled
pub mod ListingTells
pub mod ListingFiles
