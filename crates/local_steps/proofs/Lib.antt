pub mod Codes
pub mod Forms
pub mod Nesting
pub mod equality_lemmas
