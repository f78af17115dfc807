pub mod Coupled
pub mod Duty
pub mod Standing
pub mod Mutex
pub mod MutexSite
pub mod MutexLock
