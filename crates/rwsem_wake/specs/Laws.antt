pub mod SemDuty
