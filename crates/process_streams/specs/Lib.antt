pub mod Writes
pub mod Descriptors
pub mod Words
pub mod Faults
