pub mod FmlpLine
