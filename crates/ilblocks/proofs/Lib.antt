pub mod Blocks
pub mod Inputs
mod Parts
pub mod Ports
pub mod Stores
