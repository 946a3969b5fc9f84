-- What only inner functions ask and promise.
pub mod Sum
pub mod Row
pub mod Walk
pub mod Call
