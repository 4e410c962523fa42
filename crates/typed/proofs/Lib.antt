-- The laws of reading a text.
pub mod Numerals
pub mod Scans
pub mod Filling
pub mod Texts
pub mod Lents
pub mod Writes
pub mod Theorems
