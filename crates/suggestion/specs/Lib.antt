pub mod Requests
pub mod Suggestion
