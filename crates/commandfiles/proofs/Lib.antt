mod FileFronts
pub mod KeptNotes
pub mod MeantOut
mod ReportedLines
mod UnusedValues
