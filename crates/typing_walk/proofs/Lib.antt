pub mod exprs_lemmas
pub mod actions_lemmas
