pub mod Rooms
pub mod Checks
pub mod LetThrough
pub mod Faults
pub mod Exactly
pub mod inner
