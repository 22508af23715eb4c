pub mod HeadLaws
pub mod BodyLaws
pub mod StreamLaws
pub mod TargetSteps
pub mod BegunSteps
pub mod QueueSteps
pub mod HeadSteps
pub mod FeedSteps
