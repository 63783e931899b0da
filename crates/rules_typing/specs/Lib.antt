pub mod Typing
pub mod TypingActions
pub mod TypingFaults
pub mod TypingScripts
pub mod TypingSizes
