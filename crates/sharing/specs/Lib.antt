-- The definitions that the contracts cite.
pub mod Row
pub mod Table
