pub mod Putting
pub mod Recordings
pub mod Fits
pub mod SessionLaws
