pub mod KnowledgeLaws
pub mod EntryNumbers
pub mod Eavesdrop
pub mod Past
mod Counting
