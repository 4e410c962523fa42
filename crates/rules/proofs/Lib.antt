pub mod Walked
pub mod Rows
pub mod Decoding
pub mod Tables
pub mod Columns
pub mod Answers
pub mod Promised
