pub mod Leaving
pub mod Steps
pub mod Flying
pub mod Ended
pub mod Strands
pub mod Entered
pub mod operations_lemmas
pub mod rests_lemmas
