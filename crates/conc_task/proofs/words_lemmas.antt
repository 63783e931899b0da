pub mod Tests
pub mod Numbers
pub mod Faultless
pub mod Rows
pub mod Entries
pub mod Taken
