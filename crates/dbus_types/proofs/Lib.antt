pub mod SignatureLaws
pub mod SignatureRead
pub mod SignatureExamples
pub mod ScanLaws
pub mod PlaceLaws
pub mod ScanLoop
pub mod BehindLaws
pub mod PlainLaws
