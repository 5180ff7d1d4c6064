pub mod Readings
pub mod Messages
pub mod Texts
mod FileExamples
