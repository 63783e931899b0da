pub mod Sleepers
pub mod Untimed
pub mod Performing
pub mod Entering
pub mod Waking
pub mod Standing
