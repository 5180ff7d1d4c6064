pub mod Counts
pub mod Chains
pub mod Listeners
pub mod Whole
pub mod Logging
pub mod TurnLogging
pub mod RunLogging
