mod Paths
mod Equal
mod Joins
mod Numbers
mod Runs
mod Chains
mod RunSpans
mod RunMarks
