pub mod Types
pub mod Keeping
pub mod Left
pub mod Laws
