pub mod BodyExamples
