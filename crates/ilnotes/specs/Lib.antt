pub mod Planned
pub mod ReadSteps
pub mod Said
