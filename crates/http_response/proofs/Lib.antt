pub mod HeadLaws
pub mod ResponseLaws
pub mod HeadSteps
pub mod ResponseSteps
