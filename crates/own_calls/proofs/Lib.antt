pub mod Covering
pub mod Lengths
pub mod ListedCalls
pub mod NameLengths
pub mod PatternCalls
pub mod SendingLaws
