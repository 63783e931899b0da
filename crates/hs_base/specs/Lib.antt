pub mod Masks
pub mod ExceptionTexts
pub mod Lists
pub mod Held
