mod Pushes
mod PercpuCalls
mod Plans
