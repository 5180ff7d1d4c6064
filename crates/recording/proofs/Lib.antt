pub mod Fronts
pub mod RecordingLaws
pub mod RecordingRead
mod RecordingExamples
mod SessionExamples
pub mod Heads
pub mod Walk
pub mod Sizes
pub mod Spellings
pub mod Named
pub mod SessionFronts
pub mod SessionsWritten
pub mod SessionsRead
pub mod OneSession
pub mod SessionWalk
pub mod Refusals
