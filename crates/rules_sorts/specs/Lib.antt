pub mod Sorts
pub mod TypedMeaning
