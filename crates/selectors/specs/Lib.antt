-- The definitions that the contracts cite: what a selector and a dictionary mean, then how they are read.
pub mod Parts
pub mod Profile
pub mod Dictionary
pub mod Selecting
pub mod Scan
pub mod Sieve
pub mod Lining
pub mod Walking
pub mod Told
