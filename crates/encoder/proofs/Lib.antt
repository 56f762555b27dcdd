pub mod CoordinateLaws
pub mod OperationLaws
pub mod RunLaws
pub mod RequestLaws
