mod CountWords
mod ReportLemmas
pub mod LogLines
pub mod Keeping
