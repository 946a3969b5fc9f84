pub mod Factors
pub mod Nan
pub mod Overshoot
