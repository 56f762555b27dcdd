pub mod FileLaws
pub mod Stands
pub mod WrittenLaws
