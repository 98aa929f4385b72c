pub mod SlotLaws
pub mod CycleLaws
pub mod ValidRows
pub mod ValidTables
