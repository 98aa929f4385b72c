pub mod SetBooks
