pub mod CpuThreads
pub mod GroupRuns
pub mod Lists
pub mod SetRuns
