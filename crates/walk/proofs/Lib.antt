pub mod Plain
pub mod Ready
