pub mod SleepCounts
