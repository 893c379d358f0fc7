mod Lineups
mod Lines
