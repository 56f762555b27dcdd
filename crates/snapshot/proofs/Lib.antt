pub mod Inverses
pub mod HeaderLaws
pub mod RecordLaws
pub mod Reading
pub mod BodyLaws
pub mod Outcome
pub mod Parted
pub mod Ending
