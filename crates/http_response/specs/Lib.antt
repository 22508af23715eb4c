pub mod Head
pub mod Response
pub mod Reader
pub mod Steps
