pub mod TokenText
pub mod Printed
pub mod Same
pub mod Walk
pub mod Splits
