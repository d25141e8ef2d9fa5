pub mod Stands
pub mod Acts
pub mod Sizes
