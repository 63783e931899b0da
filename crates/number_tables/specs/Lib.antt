pub mod Tables
pub mod value_keys
