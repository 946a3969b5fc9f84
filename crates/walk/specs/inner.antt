-- What only inner functions ask and promise.
pub mod Rows
pub mod Path
