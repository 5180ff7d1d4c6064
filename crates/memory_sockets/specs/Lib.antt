pub mod Notes
pub mod Streams
pub mod Scripts
pub mod Sockets
pub mod Listeners
pub mod Clocks
pub mod Calls
