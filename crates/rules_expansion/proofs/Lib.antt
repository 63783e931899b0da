pub mod trees_lemmas
