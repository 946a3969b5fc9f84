pub mod LaidWords
pub mod ReadChecks
pub mod Putting
pub mod Writes
