-- What only inner functions ask and promise.
pub mod Marks
