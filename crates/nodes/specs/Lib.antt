-- The definitions that the contracts cite.
pub mod Filled
pub mod Loading
pub mod Unpacking
