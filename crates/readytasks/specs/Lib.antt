pub mod ReadyLists
pub mod TaskSets
pub mod TaskSetSteps
