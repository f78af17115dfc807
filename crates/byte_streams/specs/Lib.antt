pub mod Causes
pub mod Memories
pub mod Rooms
