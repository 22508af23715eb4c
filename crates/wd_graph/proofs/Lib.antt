pub mod FindLemmas
pub mod Numbers
pub mod ReachIsOne
pub mod ReachLaws
mod IndexLemmas
mod MarkLemmas
mod WalkLemmas
mod WorkerLemmas
