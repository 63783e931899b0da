pub mod Defining
pub mod Emits
pub mod Making
pub mod Numbering
pub mod Opening
pub mod Placing
pub mod Waiting
pub mod Filled
