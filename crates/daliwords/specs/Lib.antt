pub mod Events
pub mod Written
pub mod WrittenSteps
