pub mod Passing
pub mod Alike
pub mod Entering
pub mod Timing
