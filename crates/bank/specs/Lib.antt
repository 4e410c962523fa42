-- The definitions that the contracts cite.
pub mod Opening
pub mod Found
