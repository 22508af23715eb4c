pub mod Marks
pub mod Grammar
pub mod Shapes
pub mod Script
pub mod Spots
pub mod Letters
pub mod Fault
