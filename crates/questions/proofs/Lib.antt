mod Halving
mod Refusals
pub mod Found
pub mod Insertion
pub mod Matching
pub mod Order
pub mod Quotients
pub mod Reading
pub mod Rising
pub mod Rows
pub mod Pairs
pub mod Fields
pub mod QuestionKinds
