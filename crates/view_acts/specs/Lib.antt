pub mod ShownActs
