pub mod Fronts
pub mod Steps
pub mod Last
pub mod Outcome
pub mod Bounds
