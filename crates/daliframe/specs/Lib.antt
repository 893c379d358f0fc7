pub mod Addresses
pub mod EventSchemes
pub mod Frames
pub mod Opcodes
pub mod Printed
pub use Rattle.limits.specs.Limits
