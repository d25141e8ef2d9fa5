pub mod Lists
pub mod Bytes
pub mod Device
pub mod Places
pub mod Head
pub mod Commit
