pub mod Least
pub mod Rounds
pub mod Rows
