mod BitEnds
mod Bits
mod Places
mod RowAccess
mod RowEnds
mod RowStarts
pub mod RowWrites
mod Rows
pub mod SlotPlaces
mod Sorted
