pub mod Signature
pub mod Refusals
pub mod Codes
pub mod Scan
pub mod Places
pub mod Behind
pub mod Plain
