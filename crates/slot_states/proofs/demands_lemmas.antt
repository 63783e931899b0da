pub mod Demanding
pub mod Ended
