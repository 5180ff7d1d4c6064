pub mod Files
pub mod Gives
