pub mod Printed
pub mod Ended
pub mod Kept
pub mod Going
pub mod More
pub mod history_lemmas
pub mod clocked_lemmas
