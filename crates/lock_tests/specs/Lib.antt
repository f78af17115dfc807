pub mod Nests
pub mod OsqStanding
