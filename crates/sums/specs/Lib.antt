pub mod Sum
pub mod Pair
pub mod inner
