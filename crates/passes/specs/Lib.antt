-- The definitions that the contracts cite.
pub mod Passes
pub mod Given
pub mod Gaps
