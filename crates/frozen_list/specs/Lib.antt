pub mod Calls
pub mod Cases
