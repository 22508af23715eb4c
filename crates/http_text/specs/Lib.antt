pub mod Fields
pub mod ReplyText
pub mod RequestText
