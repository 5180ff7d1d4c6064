pub mod Histories
pub mod Fits
pub mod Links
pub mod Growing
pub mod Whole
pub mod Replays
