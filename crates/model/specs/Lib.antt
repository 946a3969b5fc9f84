pub mod Lent
pub mod Good
pub mod Model
pub mod Accepted
pub mod inner
