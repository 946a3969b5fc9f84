-- What only inner functions promise.
pub mod Open
pub mod Terms
