-- Answers: each under its condition and no other, and what is left after it. Assumes nothing.
pub mod StepAnswers
pub mod Fixed
pub mod Answered
pub mod Left
pub mod OnlyCall
