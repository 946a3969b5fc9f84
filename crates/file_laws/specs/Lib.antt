pub mod Flip
pub mod Faults
