pub mod DeedLemmas
pub mod CompareLemmas
pub mod NameLaws
pub mod SeenLaws
pub mod FetchLemmas
