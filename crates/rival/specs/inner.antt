-- What only inner functions ask and promise.
pub mod Origins
pub mod Parts
