pub mod FindLaws
pub mod ViewLaws
