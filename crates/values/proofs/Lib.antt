pub mod Lists
pub mod Handing
