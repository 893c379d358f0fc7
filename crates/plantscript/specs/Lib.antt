pub mod DeskSteps
pub mod Runs
pub mod Texts
