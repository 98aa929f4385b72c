pub mod TaskNumbers
