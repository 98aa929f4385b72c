pub mod Rans
