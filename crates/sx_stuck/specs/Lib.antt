pub mod StuckText
pub mod StuckGoals
pub mod ToldGoals
