pub mod Cuts
pub mod PatternIndex
pub mod Patterns
pub mod Ranks
