pub mod Records
pub mod Reading
pub mod Calls
pub mod Answers
pub mod Reports
pub mod Cutting
