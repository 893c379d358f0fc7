mod BindingReading
mod BoundSources
mod CutParts
mod Declarations
mod GearStarts
mod KnownStatements
mod LineFiles
pub mod LineReading
pub mod Orders
pub mod SaidTries
mod ScenarioReading
mod Spelled
pub mod SpelledNumbers
mod TickRows
