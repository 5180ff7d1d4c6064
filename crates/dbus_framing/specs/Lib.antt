pub mod Coming
pub mod Framing
pub mod Knows
pub mod Lying
