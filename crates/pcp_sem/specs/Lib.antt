pub mod Pairs
pub mod Stack
pub mod PcpKept
pub mod Listed
pub mod IsPcp
pub mod AfterActs
