pub mod grammar
pub mod typing
