mod Documents
mod Reading
mod Taking
mod Tasks
pub mod ring_lemmas
pub mod words_lemmas
