pub mod WordLaws
pub mod ReadLaws
pub mod NeededLaws
pub mod WordsExamples
