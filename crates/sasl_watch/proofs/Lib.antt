pub mod LinesLaws
pub mod LinesGrow
mod LinesExamples
pub mod LineTableLaws
pub mod Cuts
pub mod WordLaws
pub mod Givens
pub mod Followed
