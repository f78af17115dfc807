pub mod Fields
pub mod CallKinds
pub mod CallParts
pub mod Modes
pub mod States
pub mod Signals
pub mod Unavailables
pub mod EventCounts
