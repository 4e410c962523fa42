-- The definitions that the contracts cite.
pub mod Columns
pub mod Front
pub mod Decoding
pub mod Steady
pub mod Level
pub mod Meet
pub mod Threads
