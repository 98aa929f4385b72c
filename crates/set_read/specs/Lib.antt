pub mod Forms
pub mod Document
pub mod Sets
pub mod Names
pub mod Seen
pub mod inside
