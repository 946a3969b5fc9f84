pub mod Binary
pub mod Roots
pub mod Exp
pub mod Ln
pub mod Ln1m
pub mod Calls
pub mod inner
