mod EagerAlike
pub mod Stepping
pub mod Untimed
