pub mod Values
pub mod Reading
pub mod Ends
pub mod Walk
pub mod Seen
pub mod Alignments
pub mod Counted
pub mod Bodies
