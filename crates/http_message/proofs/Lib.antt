pub mod FieldLemmas
pub mod TrailerLaws
pub mod TrailerSteps
pub mod ChunkLaws
pub mod ChunkSteps
