mod BindingStops
mod MadeScans
mod MeantScans
mod OneStep
mod TaskNames
