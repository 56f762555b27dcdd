pub mod OperationLaws
pub mod FrameLaws
