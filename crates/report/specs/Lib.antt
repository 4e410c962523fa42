-- The definitions that the contracts cite.
pub mod Surveys
pub mod Text
