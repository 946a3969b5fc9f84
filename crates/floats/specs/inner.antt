-- What only laws ask for.
pub mod Sign
