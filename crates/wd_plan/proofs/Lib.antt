pub mod ScriptSteps
pub mod FolderSteps
pub mod PlanLaws
pub mod StartSteps
pub mod SomePlan
