pub mod LogFits
pub mod RefusalText
