pub mod Tools
pub mod Operands
