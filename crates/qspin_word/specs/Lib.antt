pub mod Types
pub mod Allows
pub mod SpinWordHands
pub mod Ways
pub mod SpinWordHandles
