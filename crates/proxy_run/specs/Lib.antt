pub mod Runs
pub mod Logs
