pub mod Names
pub mod Links
pub mod Graph
pub mod Walk
pub mod Index
pub mod Workers
