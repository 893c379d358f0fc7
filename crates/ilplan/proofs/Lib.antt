pub mod Beginnings
mod BegunPlans
pub mod BegunScans
pub mod CallsAdded
mod Declared
pub mod EachOnce
mod Keys
mod StoredSlots
pub mod Used
