pub mod Events
pub mod Recordings
pub mod Runs
