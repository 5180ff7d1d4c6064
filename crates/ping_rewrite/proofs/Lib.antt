mod AnswerBytes
mod CallBytes
pub mod Lengths
