pub mod Ascending
pub mod Learned
pub mod Levels
pub mod Merging
mod Walks
