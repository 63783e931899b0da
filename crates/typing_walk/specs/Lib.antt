pub mod exprs
pub mod actions
