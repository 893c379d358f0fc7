pub mod EventSchemes
pub mod Messages
