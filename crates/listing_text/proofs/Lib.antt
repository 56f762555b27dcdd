pub mod DecimalLaws
pub mod PutLaws
pub mod Spelled
pub mod LineLaws
pub mod NodeLines
pub mod Example
pub mod FileLaws
