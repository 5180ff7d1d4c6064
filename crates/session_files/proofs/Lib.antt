mod FileExamples
pub mod OwnWhats
pub mod Added
pub mod AllCounts
pub mod Lengths
pub mod Stops
pub mod Texts
