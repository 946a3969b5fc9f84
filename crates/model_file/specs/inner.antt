-- What only inner functions ask and promise.
pub mod Laying
pub mod Putting
