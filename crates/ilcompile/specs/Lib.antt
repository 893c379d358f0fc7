pub mod Layout
pub mod LayoutSteps
pub mod Loaded
pub mod Meant
pub mod Rows
