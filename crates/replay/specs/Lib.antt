pub mod SessionsOutput
pub mod Waiting
pub mod SessionsPlayed
pub mod OneSession
pub mod Twins
pub mod Watching
pub mod Logging
pub mod PlayedNotes
