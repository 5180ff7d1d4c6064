pub mod Lines
pub mod LineTable
pub mod Watching
pub mod Fronts
pub mod Words
pub mod Following
