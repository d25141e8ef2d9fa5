pub mod Answered
pub mod Hex
pub mod Typed
