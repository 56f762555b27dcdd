pub mod Laid
pub mod Written
pub mod Back
pub mod WrittenRead
pub mod ViewShows
pub mod CallsKept
pub mod EdgesComputed
pub mod Proved
