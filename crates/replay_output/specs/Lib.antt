pub mod Output
pub mod Explained
