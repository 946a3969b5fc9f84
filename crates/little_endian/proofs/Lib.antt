pub mod Bytes
pub mod Library
pub mod Summing
