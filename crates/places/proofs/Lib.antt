pub mod Ordered
pub mod Numbered
pub mod Made
pub mod Merged
pub mod Sorted
