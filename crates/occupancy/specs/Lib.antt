pub mod Occupancy
pub mod inner
