pub mod Actions
pub mod Expressions
pub mod Forms
pub mod Modules
pub mod Names
pub mod Types
