pub mod Objects
pub mod Places
pub mod Reserved
pub mod Lawful
pub mod Merging
pub mod Ordered
pub mod Remaining
pub mod Calls
pub mod Tasks
pub mod Legal
mod Linked
pub mod Counted
pub mod Descriptors
pub mod Tallies
pub mod LineTexts
pub mod Replies
pub mod Telling
mod Earliest
pub mod Order
pub mod Positions
pub mod NamedCalls
