pub mod Served
pub mod Without
pub mod Sorted
pub mod Exact
