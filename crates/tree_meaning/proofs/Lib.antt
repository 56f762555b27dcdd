pub mod RowFacts
pub mod FrontRows
pub mod TreeMeans
