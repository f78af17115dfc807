pub mod SeqStanding
pub mod TestPercpuPasses
pub mod CountStanding
