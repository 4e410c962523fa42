-- The definitions that the contracts cite.
pub mod Numeral
pub mod Listing
pub mod Entered
