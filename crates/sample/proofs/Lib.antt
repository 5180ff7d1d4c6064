pub mod MessageBytes
pub mod OpeningBytes
pub mod OneBehindTheOther
pub mod Counting
pub mod SummaryWords
pub mod SummaryExamples
