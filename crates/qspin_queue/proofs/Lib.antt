pub mod Fronts
pub mod Standing
pub mod NodeSteps
pub mod Sharing
pub mod QueueSteps
pub mod Stating
pub mod Queueing
pub mod Turns
pub mod HeadSteps
pub mod Entering
pub mod Contending
pub mod Filling
pub mod Saying
pub mod Moving
pub mod Recalling
pub mod Interrupting
mod Heading
