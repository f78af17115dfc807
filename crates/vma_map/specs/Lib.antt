pub mod Runs
pub mod Spaces
pub mod Bisections
pub mod Searches
pub mod Remaps
pub mod Laws
