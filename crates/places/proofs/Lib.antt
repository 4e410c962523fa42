-- The laws behind places: `Presence` and `Shortened` are for other crates, the others serve the proofs here.
pub mod Days
pub mod Counts
pub mod Bounds
pub mod Fitting
pub mod Presence
pub mod Shortened
