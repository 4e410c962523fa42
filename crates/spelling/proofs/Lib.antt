-- The laws of putting text together.
pub mod Pieces
pub mod Numerals
pub mod Rooms
