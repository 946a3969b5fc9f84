pub mod Kernels
pub mod EntryBits
