pub mod Words
pub mod Stretches
pub mod Standing
pub mod Laws
pub mod Compared
