pub mod TraceText
pub mod Groups
pub mod CountLines
