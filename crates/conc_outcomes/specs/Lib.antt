pub mod Exploring
pub mod Parts
pub mod finiteness
pub mod walks
pub mod order
pub use Rattle.state_search.specs.Searching
