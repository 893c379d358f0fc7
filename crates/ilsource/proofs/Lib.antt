mod Counting
mod Grown
mod KeptFunctions
pub mod KeptMeaning
pub mod KeptSizes
mod Spelled
