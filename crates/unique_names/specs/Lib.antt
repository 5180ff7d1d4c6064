pub mod Inserted
pub mod Known
pub mod Merged
pub mod Taught
