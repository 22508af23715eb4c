pub mod ProgramLemmas
pub mod WishLemmas
