pub mod WordLaws
pub mod PlainLaws
pub mod LinkLaws
