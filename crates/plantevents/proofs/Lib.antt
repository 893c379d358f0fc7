mod Arriving
pub mod ComingUp
mod Counts
mod Dropped
mod Dropping
mod GivenUp
pub mod Handing
pub mod Having
mod Legality
mod Linking
mod LegalRows
pub mod Owing
pub mod Parting
mod Pending
mod Scanning
mod Showing
mod Since
pub mod Slots
mod Taking
mod Waiting
mod Writes
mod Writing
pub use Rattle.ilmachine.proofs.Commits
