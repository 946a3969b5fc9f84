-- What only inner functions ask.
pub mod Whole
pub mod Found
