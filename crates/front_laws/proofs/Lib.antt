pub mod grammar_lemmas
pub mod typing_lemmas
