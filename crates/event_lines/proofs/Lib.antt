mod Joins
mod Chains
mod Pieces
mod Spans
mod CpuSpans
mod Commas
mod Ticks
pub mod Told
