pub mod FirstRow
pub mod Barring
