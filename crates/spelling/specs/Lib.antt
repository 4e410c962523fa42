-- The definitions that the contracts cite.
pub mod Spelled
pub mod Lines
pub mod Puts
