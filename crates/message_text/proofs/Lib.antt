mod MessageTextExamples
pub mod PrintSteps
pub mod ReadSteps
pub mod PrintLaws
pub mod ShapeLaws
pub mod PrintMessageLaws
pub mod TextBytes
pub mod WordLaws
pub mod ReadLaws
pub mod WordsRead
pub mod ReadIs
pub mod LinesRead
pub mod TextsRead
pub mod TextsFound
pub mod ReadAnswers
pub mod WholeBytes
