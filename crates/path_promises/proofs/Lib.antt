pub mod Used
pub mod Tables
pub mod BestPath
pub mod Calls
pub mod WayOut
pub mod Rival
pub mod Likelihood
