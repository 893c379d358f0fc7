mod Again
mod AnyDown
mod BusSteps
pub mod Counts
pub mod Handed
mod Hearing
pub mod Linked
mod Order
pub mod Refused
mod Scanned
pub mod Sent
mod Settled
pub mod Tellings
pub mod Turned
