pub mod Entered
pub mod Placed
