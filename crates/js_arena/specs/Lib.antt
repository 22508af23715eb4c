pub mod Capped
pub mod Heap
pub mod Keys
pub mod Pairs
pub mod Props
pub mod Units
