pub mod Own
pub mod OwnKinds
pub mod OwnerRuled
pub mod OwnerSite
