pub mod Ends
pub mod Hands
pub mod Lists
pub mod Dealing
pub mod Gathering
pub mod Left
pub mod flags
pub mod queues
