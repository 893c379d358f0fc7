mod AttemptLemmas
pub mod Eaching
mod Failures
mod ReadingLemmas
mod Trying
