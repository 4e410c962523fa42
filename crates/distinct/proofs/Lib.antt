-- The laws behind classes and places, and what they count.
pub mod Classing
pub mod Shifting
pub mod Counting
