pub mod Digits
pub mod Numbers
pub mod EntryLines
pub mod Readings
pub mod ScriptLines
pub mod Faults
pub mod Documents
