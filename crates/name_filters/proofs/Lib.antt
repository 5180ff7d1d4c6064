pub mod CutBytes
pub mod ListBodies
pub mod Listed
pub mod NameBytes
