pub mod QueueRule
pub mod Deques
pub mod Inboxes
