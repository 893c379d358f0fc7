mod Collected
mod ExternalFaults
pub mod FoundOrder
mod Kept
pub mod Least
pub mod OneCause
pub mod Parts
mod Places
pub mod Subranges
mod TwiceAddresses
pub mod TwiceLast
