pub mod Reason
pub mod Script
pub mod Constant
pub mod Folder
pub mod Starts
pub mod Refusal
pub mod Plan
pub mod Prepare
