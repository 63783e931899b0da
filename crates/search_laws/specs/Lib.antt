pub mod Shown
pub mod Going
pub mod Found
pub mod SearchLaws
pub mod time
pub mod rests
pub mod ends
