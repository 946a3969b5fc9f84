pub mod Rival
