pub mod Rows
pub mod Keys
pub mod Orders
pub mod Cursors
pub mod Packing
pub mod Searching
pub mod Merging
pub mod Laws
