-- The laws behind the passes that prepare a rule.
pub mod Filling
pub mod Descending
pub mod Holding
pub mod Choosing
pub mod Valued
pub mod Wanting
pub mod Keying
pub mod Skipping
pub mod Owning
