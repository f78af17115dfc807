pub mod CpuCounting
pub mod Countdowns
pub mod Gates
pub mod Parking
pub mod AnswerScripts
