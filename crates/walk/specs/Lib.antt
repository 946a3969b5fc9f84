pub mod Barred
pub mod inner
