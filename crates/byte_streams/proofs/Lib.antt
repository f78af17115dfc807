mod Digits
pub mod Ways
pub mod Pieces
