pub mod System
pub mod Trouble
