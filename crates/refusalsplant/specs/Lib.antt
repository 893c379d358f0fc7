pub mod Hearings
pub mod Turns
