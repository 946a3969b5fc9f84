pub mod Pass
pub mod Call
pub mod inner
