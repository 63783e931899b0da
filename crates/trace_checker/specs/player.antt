pub mod Playing
pub mod Entering
pub mod Reaching
