pub mod Kept
pub mod Seen
pub mod Entries
pub mod Counted
