-- The law that the program's proof cites.
pub mod Kept
