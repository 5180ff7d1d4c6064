pub mod Streams
pub mod Sessions
pub mod Incoming
pub mod Messages
pub mod Steps
pub mod Seen
pub mod Shapes
