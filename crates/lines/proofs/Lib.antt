pub mod Failures
pub mod LinesTold
pub mod EndingTold
