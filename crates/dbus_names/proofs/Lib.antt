pub mod NameBytes
pub mod NameKinds
pub mod NamesExamples
pub mod NamesFrom
pub mod OnePass
pub mod Runs
pub mod Texts
