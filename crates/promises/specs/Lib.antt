pub mod Unique
pub mod Always
pub mod Pass
pub mod NoNan
