pub mod Times
pub mod SumsShown
