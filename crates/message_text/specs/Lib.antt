pub mod MessageText
pub mod Printing
pub mod Reading
pub mod Seen
pub mod TextOf
pub mod Answers
