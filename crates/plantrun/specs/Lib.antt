pub mod Runs
pub mod Scenes
pub use Rattle.workers.specs.declared.closed.ClosedParts
