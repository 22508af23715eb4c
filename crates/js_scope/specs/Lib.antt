pub mod Early
pub mod Names
pub mod Verdict
pub mod Splits
pub mod Walks
