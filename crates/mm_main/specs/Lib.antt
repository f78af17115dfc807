pub mod ProgramLocks
