pub mod Counted
pub mod Named
pub mod Messages
pub mod Added
pub mod Texts
pub mod AuditExamples
