pub mod MutexLists
pub mod SemaphoreLists
pub mod SpinLists
pub mod Telling
