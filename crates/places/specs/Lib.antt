-- The definitions that the contracts cite.
pub mod Placing
pub mod Earlier
pub mod Made
