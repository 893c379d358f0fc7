pub mod Buildings
pub mod Lineups
pub mod Sites
pub use Rattle.plantlive.specs.Lives
pub use Rattle.plantlive.specs.declared.living.Lived
