mod Answered
mod Ending
mod Filing
mod Fitting
mod Places
pub mod Refusing
mod Since
pub use Rattle.plantreceipts.proofs.Eaching
