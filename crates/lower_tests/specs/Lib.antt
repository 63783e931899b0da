pub mod evaluation
