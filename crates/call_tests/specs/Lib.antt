pub mod OwnerStanding
