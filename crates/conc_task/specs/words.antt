pub mod Program
pub mod Commands
