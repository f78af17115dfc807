pub mod Leaving
pub mod LockMembers
pub mod Laws
