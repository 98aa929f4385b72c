pub mod Refreshing
pub mod ReadySets
pub mod OrderedLaws
pub mod SplitLaws
pub mod FirstLaws
pub mod ExchangeLaws
