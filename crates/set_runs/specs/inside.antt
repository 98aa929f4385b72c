pub mod CpuThreads
