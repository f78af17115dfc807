pub mod Walks
pub mod OsqRuled
