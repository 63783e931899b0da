pub mod Scopes
pub mod Found
pub mod Emitted
pub mod Steps
