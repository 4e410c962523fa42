-- The definitions that the contracts cite.
pub mod Groups
pub mod Classes
