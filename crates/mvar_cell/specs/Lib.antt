pub mod Befores
pub mod Calls
pub mod Cursors
pub mod Lined
pub mod Mvars
pub mod Nodes
pub mod Readers
