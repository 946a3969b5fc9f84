pub mod Best
pub mod Walk
pub mod Score
pub mod inner
