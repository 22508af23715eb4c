pub mod Program
pub mod Notice
pub mod Command
