pub mod Operations
pub mod EventLines
pub mod InputLines
pub mod EventLists
pub mod Writes
pub mod TraceTexts
pub mod Pictures
pub mod PictureLaws
