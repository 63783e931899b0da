pub mod DefSteps
pub mod Top
pub mod blocks_lemmas
