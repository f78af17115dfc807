mod Planned
mod Gathered
