pub mod Float
pub mod inner
