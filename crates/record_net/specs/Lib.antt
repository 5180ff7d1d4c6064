pub mod Records
pub mod Tapes
pub mod Fitting
pub mod Starts
pub mod Sessions
