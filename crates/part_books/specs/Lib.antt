pub mod PartBooks
