pub use Rattle.buslink.proofs.Eaching
pub mod Noting
mod Outcomes
pub mod Roles
mod Seating
