mod Lawful
pub mod Counting
pub mod Sitting
mod Trying
mod Showing
