pub mod Answers
pub mod RecordBytes
pub mod Write
pub mod Fit
pub mod Refused
pub mod Carries
pub mod Does
pub mod Sent
