pub mod SplitSets
