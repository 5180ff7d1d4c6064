pub mod LineWords
pub mod EntryWords
pub mod EntriesNamed
pub mod Buffers
