pub mod Scripts
pub mod Memory
pub mod Transcripts
pub mod MemNets
