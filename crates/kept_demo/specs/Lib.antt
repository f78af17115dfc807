pub mod Accounts
pub mod Queues
