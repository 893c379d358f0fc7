mod CodeLemmas
mod KeptSetups
mod MeantCodes
mod MeantScans
pub mod OneAnswer
