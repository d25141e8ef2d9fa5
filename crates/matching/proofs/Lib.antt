pub mod Words
pub mod Asked
pub mod Steps
