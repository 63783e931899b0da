pub mod Merged
pub mod Counted
pub mod Worst
pub mod Stepping
pub mod Headed
pub mod Noting
pub mod Told
