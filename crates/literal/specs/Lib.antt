-- The definitions that the contracts cite.
pub mod Laid
pub mod Counts
pub mod Wrong
pub mod Only
pub mod Posed
