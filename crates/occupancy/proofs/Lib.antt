pub mod Held
pub mod Emitted
pub mod Same
pub mod Bounds
