pub mod Decodes
pub mod Flags
pub mod Here
pub mod Linux
