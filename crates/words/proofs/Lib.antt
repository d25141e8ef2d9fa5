pub mod Laws
pub mod Standing
pub mod Iterated
pub mod Compared
pub mod Agreeing
pub mod Ends
pub mod FirstDiffering
