pub mod Recording
pub mod Seen
pub mod Gives
pub mod Passes
pub mod Sessions
pub mod SessionsSeen
pub mod SessionPasses
