pub mod Copies
pub mod Empty
