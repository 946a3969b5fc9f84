pub mod Entries
pub mod Low
pub mod GoodBits
pub mod Marks
