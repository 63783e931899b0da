pub mod Keys
pub mod Places
pub mod Sleeping
pub mod Throwing
