pub mod Plays
pub mod Runs
