pub mod Lives
pub mod LivesSteps
pub mod Periods
pub use Rattle.workers.specs.Starts
