pub mod Lists
pub mod Listed
pub mod Rounds
pub mod Gaps
pub mod Whole
pub mod finiteness_lemmas
pub mod walks_lemmas
pub mod order_lemmas
