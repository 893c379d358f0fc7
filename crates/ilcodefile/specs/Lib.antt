pub mod BodySteps
pub mod FaultSteps
pub mod Faults
pub mod FieldSteps
pub mod Files
pub mod Printed
pub mod TableSteps
