mod Forms
mod Phases
mod Owing
mod Later
mod Steps
mod Answers
mod Threads
mod Typed
mod Books
mod Plain
mod Operations
mod Entries
pub mod Law
mod Parts
mod Worked
