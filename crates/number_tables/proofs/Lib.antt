pub mod Indexes
pub mod value_keys_lemmas
