-- The definitions that the contracts cite.
pub mod Classes
pub mod Shifts
pub mod Values
