mod PlaysOut
mod RunsOut
mod ScenarioFaults
