pub mod RangeLemmas
pub mod WordLemmas
pub mod CountLemmas
pub mod FaultLemmas
pub mod QueryLemmas
pub mod FindLemmas
pub mod Ascending
pub mod Narrowing
mod CutLemmas
mod SpliceLemmas
mod SearchLemmas
mod EndsLemmas
mod ChangeLemmas
mod MoveLemmas
mod RemapLemmas
