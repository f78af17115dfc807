pub mod Area
pub mod PageRun
pub mod SpaceCall
pub mod Space
