pub mod Keeping
pub mod LastEntry
pub mod Going
pub mod Timed
pub mod Ticks
