pub mod TableLaws
pub mod OperationFacts
pub mod BatchLaws
pub mod FrameFacts
