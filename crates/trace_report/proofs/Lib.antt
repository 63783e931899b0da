pub mod Shown
pub mod Seeing
pub mod Written
pub mod Counted
pub mod tally_lemmas
