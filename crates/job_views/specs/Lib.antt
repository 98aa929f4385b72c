pub mod Told
pub mod RowsShown
pub mod TaskRowsShown
pub mod Tables
pub mod inside
