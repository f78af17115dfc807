pub mod BenchRooms
pub mod Idles
pub mod RoundsBetween
pub mod BenchPercpuPasses
pub mod FaultPlans
pub mod FaultPasses
pub mod EqualWords
