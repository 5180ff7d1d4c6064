pub mod Apart
pub mod Elements
pub mod Points
pub mod Steps
pub mod Within
