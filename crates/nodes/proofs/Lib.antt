pub mod Fills
pub mod Unpacked
pub mod Loads
pub mod Unique
pub mod Blanks
pub mod Held
