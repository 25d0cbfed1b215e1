pub mod RefreshLaws
pub mod Rounds
pub mod Words
pub mod ListWords
pub mod ListReading
pub mod ListLines
