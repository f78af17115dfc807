pub mod TableCall
pub mod Table
