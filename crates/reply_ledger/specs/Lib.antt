pub mod Answered
pub mod Apart
pub mod Expected
pub mod Ledger
pub mod Owed
