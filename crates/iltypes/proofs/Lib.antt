pub mod Comparisons
pub mod Corners
pub mod Equality
pub mod Fitting
pub mod Limits
mod Magnitudes
mod Numbers
pub mod OperatorEquality
mod Quotients
mod Remainders
pub mod TypeTests
