pub mod CommandLine
pub mod ExpectedWords
pub mod Invocations
pub mod LineWords
pub mod Tables
pub mod TextWords
pub mod WatchedNames
