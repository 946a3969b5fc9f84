-- What only inner functions ask and promise.
pub mod Step
pub mod Row
pub mod Back
