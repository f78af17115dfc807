pub mod Fronts
pub mod Rising
pub mod Unqueueing
