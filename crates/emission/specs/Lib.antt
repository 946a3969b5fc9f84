pub mod Barring
pub mod inner
