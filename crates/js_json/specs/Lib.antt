pub mod Units
pub mod Lists
pub mod Number
pub mod Grammar
pub mod Machine
