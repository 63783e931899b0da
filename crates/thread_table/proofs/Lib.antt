pub mod Table
pub mod Counts
pub mod Queues
pub mod Rounds
pub mod Owns
pub mod Spending
pub mod Slots
