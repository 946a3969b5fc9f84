pub mod Origins
pub mod Outcome
