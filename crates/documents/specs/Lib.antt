pub mod Document
pub mod Pages
pub mod Room
