pub mod Acting
pub mod Rows
pub mod Running
