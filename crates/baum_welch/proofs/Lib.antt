pub mod Wiped
pub mod Shares
pub mod ZeroMass
pub mod Walks
pub mod Outcome
pub mod Again
