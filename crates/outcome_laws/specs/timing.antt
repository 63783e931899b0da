pub mod WithoutTime
