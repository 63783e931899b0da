pub mod CoreMeaning
pub mod Meaning
pub mod Values
