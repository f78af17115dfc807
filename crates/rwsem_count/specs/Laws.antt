pub mod Count
pub mod Numbers
pub mod CountRuled
pub mod CountSite
