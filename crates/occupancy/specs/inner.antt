-- What the functions ask of their callers and promise, over lists in memory.
pub mod Rows
