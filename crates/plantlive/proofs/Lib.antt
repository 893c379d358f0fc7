mod Intervals
mod Since
