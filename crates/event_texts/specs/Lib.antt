pub mod Records
pub mod TaskSpans
pub mod JobInstants
pub mod CpuSpans
pub mod Budgets
pub mod EventText
pub mod worked
