-- The laws behind the report.
pub mod Texts
pub mod Theorems
