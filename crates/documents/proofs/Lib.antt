pub mod Cells
mod Copied
pub mod Pages
pub mod Room
