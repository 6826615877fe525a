pub mod HeaderAnswers
pub mod StopsTold
pub mod HeaderLines
pub mod TakenNames
pub mod FirstLines
pub mod OneHeaders
