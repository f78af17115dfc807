pub mod Types
pub mod SpinQueueHands
pub mod SpinQueueHandles
pub mod QueueLaws
