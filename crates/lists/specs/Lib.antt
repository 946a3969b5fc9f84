pub mod Lists
pub mod First
pub mod inner
