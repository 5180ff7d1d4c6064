pub mod Noting
pub mod Changing
pub mod Prefixes
pub mod Awaiting
