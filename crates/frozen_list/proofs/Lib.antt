pub mod Copied
pub mod Spans
