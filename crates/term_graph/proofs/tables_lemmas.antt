pub mod Keyed
pub mod Exact
pub mod Stacked
