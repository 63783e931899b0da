pub mod Laws
pub mod Chains
pub mod Expressions
pub mod Actions
pub mod Scripts
pub mod Least
pub mod Capped
