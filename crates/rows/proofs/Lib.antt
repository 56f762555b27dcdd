pub mod PackedLaws
pub mod RowLaws
pub mod LentLaws
