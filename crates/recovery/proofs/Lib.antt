pub mod RunLaws
pub mod Outcomes
pub mod Beginning
pub mod Ending
pub mod FromSnapshot
