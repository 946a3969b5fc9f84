pub mod Models
pub mod Files
pub mod Table
