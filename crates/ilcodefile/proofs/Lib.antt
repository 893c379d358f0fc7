mod BodyOrder
mod FieldLaws
pub mod FirstFaults
mod Lawful
mod Lengths
mod OneCode
mod Parts
mod Sections
mod Starts
