pub mod Walk
pub mod Call
pub mod inner
