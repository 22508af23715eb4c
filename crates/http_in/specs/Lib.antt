pub mod Head
pub mod Stream
pub mod Conn
pub mod Steps
pub mod Target
