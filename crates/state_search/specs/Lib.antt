pub mod Meaning
pub mod Searching
pub mod Working
pub mod EachTried
