pub mod Growth
pub mod Changes
pub mod Exact
pub mod Stocking
pub mod Stacked
pub mod waits_lemmas
