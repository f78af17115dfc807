pub mod Types
pub mod DutyWakes
pub mod WakeSteps
pub mod WakeMoves
pub mod Laws
