pub mod Updating
pub mod Keeping
pub mod Stepping
pub mod Locals
pub mod Owning
pub mod Sitting
pub mod Chaining
mod Heading
