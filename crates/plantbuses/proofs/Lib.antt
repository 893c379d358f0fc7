mod Answering
mod ComingUp
pub mod Fitting
mod Handing
pub mod LocatedLevels
pub mod Offered
pub mod OwedAt
pub mod OwedBits
pub mod OwedChanges
mod Starting
pub mod StoredLevels
