pub mod OwnerSteps
pub mod CountSteps
pub mod SpinSteps
