pub mod Trying
pub mod Staying
pub mod Keeping
pub mod EachTried
pub mod Arriving
pub mod Closing
pub mod Promised
