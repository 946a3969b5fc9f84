pub mod Loops
pub mod Terms
pub mod Peaks
pub mod Domains
pub mod Bounds
pub mod Pairs
