-- The definitions that the contracts cite.
pub mod Classed
pub mod Apart
pub mod Classes
pub mod Clear
