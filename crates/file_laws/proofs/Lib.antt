pub mod Written
pub mod Apart
pub mod ShapeOf
pub mod Cut
pub mod Stored
pub mod FileTells
pub mod Back
