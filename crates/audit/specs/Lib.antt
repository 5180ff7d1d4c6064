pub mod Audit
pub mod Tallies
