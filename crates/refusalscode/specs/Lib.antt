pub mod Codes
pub mod Plans
pub mod Scans
