pub mod AskedBy
pub mod Facts
pub mod Needs
pub mod Read
pub mod Seen
pub mod Suggest
