mod Parsing
mod WordKinds
mod Walking
mod OneWordEach
mod Examples
pub mod OnLiterals
mod Places
