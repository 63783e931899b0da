pub mod Growth
pub mod Going
pub mod tables_lemmas
