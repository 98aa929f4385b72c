pub mod AtSems
