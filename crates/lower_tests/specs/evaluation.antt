pub mod SmallestCode
