pub mod Move
pub mod SiteRun
pub mod Spin
pub mod Locked
pub mod NodeList
