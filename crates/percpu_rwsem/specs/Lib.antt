pub mod Types
pub mod Phases
pub mod PhaseSteps
pub mod PercpuRuled
pub mod PercpuPlays
pub mod PercpuHandles
pub mod PercpuStated
pub mod Laws
