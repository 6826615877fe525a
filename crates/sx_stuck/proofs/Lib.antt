pub mod StuckGoals
pub mod CanTell
