pub mod Layout
pub mod Reading
pub mod Checks
pub mod inner
