mod Buses
mod Lefts
mod OffStage
mod Scenes
mod Unstaged
