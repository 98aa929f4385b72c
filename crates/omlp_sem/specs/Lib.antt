pub mod OmlpKept
