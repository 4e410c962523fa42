-- The definitions that the contracts cite.
pub mod Ready
pub mod Along
pub mod Row
pub mod Table
pub mod Settled
