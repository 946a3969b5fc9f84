pub mod Example
pub mod Kernels
pub mod OneSample
pub mod OneState
pub mod NoMass
pub mod Files
pub mod Table
