pub mod NamePrefixes
pub mod NextPlaces
pub mod PatternCuts
mod PatternExamples
pub mod PatternFronts
pub mod PatternLaws
pub mod PatternUnique
pub mod PatternsAdded
pub mod Places
pub mod RankJoins
