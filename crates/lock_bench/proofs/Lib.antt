mod Beginning
mod Planned
mod PercpuPassing
mod FaultPassing
