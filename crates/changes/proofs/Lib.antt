-- The laws behind the walk along two orders.
pub mod Spans
pub mod Merged
pub mod Tallied
