pub mod Groups
pub mod Openings
pub mod GroupThreadTallies
