pub mod Serving
pub mod Trying
