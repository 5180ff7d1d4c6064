pub mod OneSession
pub mod Listing
pub mod Counting
