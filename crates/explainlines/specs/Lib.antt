pub mod Curing
pub mod LineForms
