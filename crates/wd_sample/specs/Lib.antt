pub mod Turns
pub mod Hello
