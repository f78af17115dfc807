pub mod CommandLines
pub mod Inputs
pub mod Services
pub mod Weaker
pub mod Telling
pub mod ToldOrder
pub mod ToldCauses
pub mod ToldWakes
