pub mod Bytes
pub mod NumberMaps
pub mod Options
pub mod TextMaps
