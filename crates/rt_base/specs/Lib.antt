pub mod TaskNos
