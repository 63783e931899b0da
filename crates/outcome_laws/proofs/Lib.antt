pub mod Timed
pub mod Reaching
pub mod Ordered
pub mod Clocked
pub mod Going
pub mod timing_lemmas
pub mod reduction_lemmas
pub mod offers_lemmas
