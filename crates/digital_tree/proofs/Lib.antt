pub mod LookLaws
pub mod ShapeLaws
pub mod PutLaws
pub mod MixLaws
