pub mod ByScenario
pub mod Expected
pub mod Installations
pub mod Names
pub mod PlaySteps
pub mod Stage
pub mod Watched
