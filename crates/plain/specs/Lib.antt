-- The definitions that the contracts cite.
pub mod Laid
pub mod Walking
