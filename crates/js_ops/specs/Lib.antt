pub mod Capped
pub mod Compare
pub mod Convert
pub mod Numbers
pub mod Operators
pub mod Ops
