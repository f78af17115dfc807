pub mod Phase
pub mod PercpuRuled
pub mod PercpuSite
